pub mod Spaced
pub mod Single
pub mod Plain
pub mod StayAbove
pub mod LastTime
