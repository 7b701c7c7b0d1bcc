pub mod Tape
pub mod Moves
