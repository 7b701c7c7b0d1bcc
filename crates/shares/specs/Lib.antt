pub mod MovableLaws
pub mod Passing
pub mod Shares
pub mod SharesLaws
