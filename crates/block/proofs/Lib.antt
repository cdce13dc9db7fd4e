pub mod Bounds
mod Grids
mod NoBand
pub mod Placed
pub mod Near
pub mod Unique
