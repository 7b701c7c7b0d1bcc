pub mod Behind
pub mod Filling
pub mod Emitting
pub mod Outcomes
pub mod Firsts
