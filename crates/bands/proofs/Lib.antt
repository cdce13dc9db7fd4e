pub mod ZoneNumber
pub mod Index
mod Guesses
pub mod Unique
