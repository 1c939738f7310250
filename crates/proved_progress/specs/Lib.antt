pub mod Fits
pub mod Waits
pub mod Own
pub mod Stays
pub mod Ends
