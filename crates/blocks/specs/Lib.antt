pub mod Blocks
pub mod Looks
