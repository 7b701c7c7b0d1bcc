pub mod Fall
pub mod Lower
