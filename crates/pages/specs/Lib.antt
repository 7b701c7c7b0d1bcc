pub mod Sheet
pub mod Standing
