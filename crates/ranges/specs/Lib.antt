pub mod Ranges
pub mod Edges
