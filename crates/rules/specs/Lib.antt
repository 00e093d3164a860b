-- Document 01, a file for each of its sections, in its order.
pub mod Lists
pub mod Cells
pub mod Floats
pub mod Types
pub mod Cube
pub mod Mesh
pub mod Update
pub mod Answers
pub mod Check
pub mod Calls
pub mod Together
pub mod Pairs
pub mod Crews
pub mod Program
