-- Laws of words in bytes, and of the check.
pub mod Words
pub mod CheckLaws
pub mod Little
