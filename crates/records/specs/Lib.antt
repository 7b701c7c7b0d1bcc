pub mod Promise
pub mod Batch
