pub mod Stepped
pub mod Until
pub mod Divides
pub mod Takes
pub mod Request
pub mod Exactly
pub mod Bytes
pub mod Took
