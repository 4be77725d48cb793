-- Laws of saved pools.
pub mod TileLaws
pub mod WriteLaws
