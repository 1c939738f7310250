pub mod Pairs
pub mod Partition
pub mod Each
pub mod Conservation
pub mod Answered
