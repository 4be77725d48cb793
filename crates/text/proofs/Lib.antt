pub mod Scans
pub mod Sames
pub mod Stores
