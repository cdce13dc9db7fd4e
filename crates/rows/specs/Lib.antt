pub mod Limits
pub mod Allowed
pub mod Letters
pub mod Resolve
pub mod inner
