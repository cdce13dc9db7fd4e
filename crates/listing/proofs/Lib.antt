mod Bytes
pub mod Numerals
pub mod Fit
pub mod Stays
pub mod Unique
