pub mod Words
pub mod Stored
pub mod Samples
