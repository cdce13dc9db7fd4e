pub mod Refusals
pub mod Room
pub mod Stays
