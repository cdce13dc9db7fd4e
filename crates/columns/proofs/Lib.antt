pub mod Guesses
pub mod Unique
