pub mod Limits
pub mod Cells
pub mod Neighbors
pub mod Rows
mod Dividing
