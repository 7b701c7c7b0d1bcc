pub mod Moves
pub mod MovesLaws
pub mod DropLaws
pub mod FollowLaws
pub mod SlideLaws
