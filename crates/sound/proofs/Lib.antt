pub mod Fitted
pub mod Judged
pub mod Zeros
pub mod SoundKnown
pub mod Mine
pub mod SoundNumbers
