pub mod Lens
pub mod Facts
pub mod Left
