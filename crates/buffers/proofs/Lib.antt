pub mod Cut
pub mod Shifts
