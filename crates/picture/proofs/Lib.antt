pub mod Cells
pub mod Marks
pub mod Painting
