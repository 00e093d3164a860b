pub mod Culling
