pub mod Places
pub mod BookRows
pub mod FigureRows
pub mod Stubs
pub mod SentRow
