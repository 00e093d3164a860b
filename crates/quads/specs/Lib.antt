pub mod Quads
pub mod Words
