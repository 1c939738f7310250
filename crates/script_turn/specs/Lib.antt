pub mod GoesOn
pub mod Sounds
