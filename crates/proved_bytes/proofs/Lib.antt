pub mod Bytes
pub mod Cover
pub mod Requests
pub mod Room
pub mod RoomBytes
pub mod Runs
pub mod Whole
