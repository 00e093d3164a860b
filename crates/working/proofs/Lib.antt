pub mod Words
pub mod Cubing
