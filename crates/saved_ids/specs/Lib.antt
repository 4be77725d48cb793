pub mod Format
pub mod Contract
pub mod Steps
