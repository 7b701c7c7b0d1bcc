pub mod Counters
pub mod Phases
pub mod Promise
pub mod Steps
