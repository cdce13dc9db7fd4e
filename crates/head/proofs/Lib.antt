pub mod Began
pub mod Unique
