mod Sets
pub mod Laws
pub mod Places
pub mod Confirm
pub mod Stretches
pub mod Unique
