pub mod Divides
pub mod Request
pub mod Exactly
pub mod Took
