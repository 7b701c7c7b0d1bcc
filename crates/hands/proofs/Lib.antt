pub mod Batches
pub mod MovedOnce
pub mod Once
pub mod Returns
pub mod Runs
pub mod SalvagedOnce
pub mod Wakes
