pub mod Bare
pub mod Block
