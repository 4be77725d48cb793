pub mod Contract
pub mod Steps
