pub mod Printing
pub mod AfterRun
pub mod Alike
pub mod Splitting
pub mod Fairness
