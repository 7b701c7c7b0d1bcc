pub mod Closing
pub mod ByPlace
