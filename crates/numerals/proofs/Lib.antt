pub mod Reading
pub mod Spelling
pub mod Storing
pub mod Plain
pub mod RoundTrip
pub mod Places
