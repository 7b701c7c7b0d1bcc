mod Passes
pub mod Laws
mod Linked
mod Unlinked
pub mod Begun
