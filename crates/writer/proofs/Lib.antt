pub mod Fit
pub mod Stores
pub mod Unique
