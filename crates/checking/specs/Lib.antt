pub mod Faces
pub mod Outcome
