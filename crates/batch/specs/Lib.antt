pub mod Rows
pub mod Promise
pub mod Turns
pub mod Batches
