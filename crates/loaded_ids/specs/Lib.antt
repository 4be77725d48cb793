pub mod Misfits
pub mod Contract
pub mod Steps
