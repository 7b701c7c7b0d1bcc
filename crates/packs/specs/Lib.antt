pub mod Records
