pub mod Begins
pub mod Opening
