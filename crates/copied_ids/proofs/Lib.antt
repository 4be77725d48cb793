-- Laws of copies of id allocators.
pub mod CopyLaws
