pub mod Reads
pub mod Sought
