pub mod Columns
pub mod View
pub mod ViewLaws
pub mod Does
pub mod Stamp
