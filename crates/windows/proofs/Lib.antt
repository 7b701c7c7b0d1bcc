pub mod Copied
pub mod Longer
pub mod Staged
pub mod Windows
