pub mod Laws
pub mod Halves
pub mod Eights
pub mod Decimals
pub mod Unique
