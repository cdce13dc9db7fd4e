pub mod Shorten
pub mod Covers
