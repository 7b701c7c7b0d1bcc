pub mod Turn
pub mod TurnAt
pub mod Woken
