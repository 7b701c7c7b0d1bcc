pub mod Chains
pub mod Floors
pub mod GapLaws
pub mod OneKind
pub mod RowFacts
