pub mod Noting
pub mod Sending
pub mod Turning
