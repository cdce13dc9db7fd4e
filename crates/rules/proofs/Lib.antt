pub mod Tags
pub mod Unique
