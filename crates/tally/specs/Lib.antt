pub mod Columns
pub mod Kept
pub mod Notes
