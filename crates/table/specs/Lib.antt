pub mod Row
pub mod Multiples
pub mod Tiles
pub mod Table
pub mod Layout
pub mod Held
pub mod Steps
pub mod Contract
