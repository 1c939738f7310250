pub mod Powers
pub mod Waits
