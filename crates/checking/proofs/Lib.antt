pub mod Faces
pub mod Rows
pub mod Checked
