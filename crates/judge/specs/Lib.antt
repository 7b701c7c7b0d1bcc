-- Document 02, K10, in plain facts.
pub mod Acceptable
-- The same as a definition that computes.
pub mod Judging
-- What the functions of crates/ties and crates/hears tell each other.
pub mod Hearing
