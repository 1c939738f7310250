pub mod Held
pub mod Others
