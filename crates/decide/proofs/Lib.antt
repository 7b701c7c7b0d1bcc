pub mod Heading
pub mod Whole
