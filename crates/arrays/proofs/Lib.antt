pub mod Stays
pub mod Unique
