pub mod Copy
pub mod Steps
pub mod Two
