pub mod Little
pub mod Header
pub mod Event
pub mod Printed
pub mod Reads
pub mod Answers
pub mod Cases
