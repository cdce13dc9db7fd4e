pub mod Read
pub mod Metres
