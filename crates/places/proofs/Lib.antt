pub mod Windows
pub mod Searches
pub mod Skips
