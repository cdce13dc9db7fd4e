pub mod Text
pub mod Write
pub mod Stays
pub mod inner
