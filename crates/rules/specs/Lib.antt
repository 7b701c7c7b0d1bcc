-- Document 01 as definitions that compute, in its order.
pub mod Numbers
pub mod Tables
pub mod Sound
pub mod Events
pub mod Choice
pub mod Answers
pub mod Refusals
pub mod Run
-- Document 02, K2, as a definition that computes.
pub mod Waking
-- What the theorems say of them, in facts that compute nothing.
pub mod Chosen
pub mod Arrived
pub mod Refused
pub mod Order
