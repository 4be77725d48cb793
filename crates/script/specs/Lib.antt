pub mod Grammar
pub mod Samples
