pub mod After
pub mod Besides
pub mod Moves
mod Slack
