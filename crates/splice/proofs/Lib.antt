pub mod Lists
pub mod Shift
pub mod Cells
pub mod Turns
pub mod Pieces
pub mod Bounds
pub mod Carves
