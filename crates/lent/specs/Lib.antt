pub mod Scenes
pub mod Patterns
