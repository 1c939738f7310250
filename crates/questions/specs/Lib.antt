pub mod Cover
pub mod Listing
