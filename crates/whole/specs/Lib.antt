pub mod Compare
pub mod Floor
pub mod Powers
pub mod Text
