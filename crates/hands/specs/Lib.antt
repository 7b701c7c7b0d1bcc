pub mod Host
pub mod Calls
pub mod Traces
