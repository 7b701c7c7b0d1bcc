pub mod Buckets
pub mod Places
