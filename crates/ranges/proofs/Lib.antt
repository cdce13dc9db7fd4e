pub mod Edges
pub mod Reach
pub mod Stays
pub mod Unique
