pub mod Runs
pub mod Outcome
