pub mod Heads
pub mod Leading
