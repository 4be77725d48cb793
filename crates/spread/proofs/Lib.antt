pub mod Agree
pub mod Wide
pub mod Bounds
pub mod Copies
pub mod Spreads
