pub mod Limits
pub mod Blocks
pub mod Time
pub mod Laws
pub mod Sections
pub mod Levels
pub mod Offsets
