mod Sides
pub mod Stages
pub mod Made
pub mod Unique
