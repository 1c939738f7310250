pub mod Level
pub mod Marks
