pub mod Rows
pub mod Places
pub mod Found
pub mod Gate
pub mod Follows
pub mod PhaseLaws
pub mod Once
