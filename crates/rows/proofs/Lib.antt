pub mod Direct
pub mod Near
pub mod Period
pub mod First
pub mod Theorems
mod Back
pub mod Unique
