pub mod Copy
pub mod Together
