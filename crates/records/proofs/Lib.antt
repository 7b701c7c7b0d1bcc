pub mod Copies
pub mod Home
pub mod BatchHome
pub mod Lawful
