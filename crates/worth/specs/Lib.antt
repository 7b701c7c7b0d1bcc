pub mod Passages
pub mod Worth
