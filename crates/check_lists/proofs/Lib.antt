pub mod Laws
pub mod Marking
pub mod Level
pub mod Levels
