pub mod Triples
pub mod Tiles
