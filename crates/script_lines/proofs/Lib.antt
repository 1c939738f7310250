pub mod Filling
pub mod Fields
