pub mod Framing
pub mod Forms
pub mod Reads
pub mod Bad
