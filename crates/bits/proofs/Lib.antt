pub mod Digits
pub mod Levels
pub mod Rooms
pub mod Counts
