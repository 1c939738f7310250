pub mod Written
pub mod Going
pub mod Heads
pub mod Lends
pub mod Titles
