-- Laws that the proofs of this crate and of the crates above it cite.
pub mod Powers
pub mod ReasonLaws
pub mod CountLaws
pub mod Equalities
