pub mod Judging
pub mod Going
pub mod Staged
