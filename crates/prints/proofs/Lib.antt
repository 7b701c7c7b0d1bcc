pub mod Stands
pub mod Pumping
pub mod ByTurns
