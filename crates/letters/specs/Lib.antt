pub mod Letters
pub mod Search
pub mod inner
