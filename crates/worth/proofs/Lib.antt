pub mod Notes
pub mod Worth
pub mod Counted
pub mod Readings
