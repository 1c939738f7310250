pub mod Clock
pub mod Others
pub mod Held
pub mod Woken
