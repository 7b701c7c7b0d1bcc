pub mod Result
pub mod Moves
pub mod Judging
pub mod Cases
