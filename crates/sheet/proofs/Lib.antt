pub mod Opening
pub mod Heading
pub mod Whole
