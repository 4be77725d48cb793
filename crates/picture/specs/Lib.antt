pub mod Bar
pub mod Samples
