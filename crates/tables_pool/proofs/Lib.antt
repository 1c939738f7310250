pub mod Parts
pub mod Members
pub mod Sifting
pub mod Numbered
pub mod Buddies
