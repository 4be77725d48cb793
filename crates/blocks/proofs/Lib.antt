pub mod Parts
pub mod Flat
pub mod Finding
pub mod Searches
