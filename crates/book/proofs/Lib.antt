pub mod Places
pub mod Turning
pub mod Balance
pub mod Waits
pub mod Sizes
pub mod Sums
pub mod Readings
