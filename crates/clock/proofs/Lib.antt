pub mod Cases
pub mod Exactly
pub mod Once
pub mod Rising
pub mod TrueTime
