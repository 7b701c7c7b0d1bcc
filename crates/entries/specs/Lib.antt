pub mod Kinds
pub mod Tests
