pub mod Frees
pub mod Gives
pub mod Gones
pub mod Inner
