pub mod Tree
pub mod Words
