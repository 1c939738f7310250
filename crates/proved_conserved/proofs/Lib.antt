pub mod Pairs
pub mod Partition
pub mod Each
pub mod Answered
pub mod Conservation
