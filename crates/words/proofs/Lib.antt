pub mod Laws
pub mod Parts
pub mod Words
pub mod Unique
