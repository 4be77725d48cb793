pub mod Align
pub mod Range
pub mod Reasons
pub mod Request
pub mod Samples
pub mod Count
