-- Laws of what is left of a pool.
pub mod LeftLaws
pub mod AskLaws
pub mod ToldLaws
pub mod Samples
