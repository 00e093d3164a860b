pub mod Slots
pub mod Meshes
pub mod Layouts
