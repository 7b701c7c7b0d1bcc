pub mod Going
pub mod Pumping
pub mod ByTurns
pub mod Shown
pub mod Staged
