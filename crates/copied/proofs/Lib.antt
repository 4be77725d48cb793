-- Laws of copies.
pub mod CarryLaws
pub mod CopyLaws
pub mod DoneLaws
pub mod Apart
pub mod Larger
