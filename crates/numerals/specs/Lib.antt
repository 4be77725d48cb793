pub mod Numeral
pub mod Spelled
pub mod Steps
pub mod Samples
