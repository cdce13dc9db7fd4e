pub mod Signs
pub mod Stays
pub mod Unique
