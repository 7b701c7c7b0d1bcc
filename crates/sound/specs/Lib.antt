pub mod Fitting
pub mod SoundNumbers
