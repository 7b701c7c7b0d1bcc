pub mod Reading
pub mod Runs
