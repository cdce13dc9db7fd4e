pub mod Units
pub mod Squares
pub mod Metres
pub mod inner
