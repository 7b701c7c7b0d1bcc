pub mod Fronts
pub mod Staged
