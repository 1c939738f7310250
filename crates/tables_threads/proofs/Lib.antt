pub mod Awake
pub mod Staying
pub mod Members
