-- Laws of reading an id allocator.
pub mod StepLaws
pub mod LoadLaws
pub mod RoundTrip
