pub mod Windows
pub mod RoundTrip
