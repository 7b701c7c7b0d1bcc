pub mod Fates
pub mod Result
pub mod Salvages
pub mod Judging
pub mod Cases
