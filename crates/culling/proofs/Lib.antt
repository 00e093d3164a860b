pub mod Sides
pub mod Passing
