mod Degrees
pub mod Unique
