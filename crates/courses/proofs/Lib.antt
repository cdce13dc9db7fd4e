pub mod Cuts
pub mod Goes
pub mod Stands
pub mod Whole
pub mod Served
pub mod Programs
pub mod Examples
