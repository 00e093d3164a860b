pub mod Patterns
pub mod Turns
pub mod Laid
pub mod Sides
pub mod Lengths
pub mod Sweeps
