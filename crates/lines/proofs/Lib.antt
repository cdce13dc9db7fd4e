pub mod Cuts
pub mod Parts
pub mod Steps
pub mod Listed
pub mod Runs
pub mod Unique
mod Feeds
