mod Places
mod Counts
pub mod Unique
