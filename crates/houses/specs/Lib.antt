pub mod House
pub mod History
pub mod Cases
pub mod Needs
pub mod Opening
