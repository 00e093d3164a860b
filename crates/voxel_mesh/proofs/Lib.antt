pub mod Shapes
pub mod Triangles
mod Making
