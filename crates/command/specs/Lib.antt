pub mod Encoded
pub mod Files
pub mod Lines
