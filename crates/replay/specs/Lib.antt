pub mod Wanted
pub mod Replayed
