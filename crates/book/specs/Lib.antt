pub mod Book
pub mod Figures
pub mod Page
pub mod Balance
pub mod Stubs
pub mod Waits
