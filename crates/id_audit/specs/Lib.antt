pub mod Verdicts
pub mod Steps
