pub mod Stages
pub mod Sizes
pub mod Unique
