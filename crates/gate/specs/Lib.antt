pub mod Promise
pub mod Calls
pub mod Needs
pub mod Judges
pub mod Replies
