mod Ones
pub mod Unique
