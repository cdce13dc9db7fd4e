pub mod Squares
pub mod Exact
pub mod Unique
