pub mod Flaws
pub mod Frame
