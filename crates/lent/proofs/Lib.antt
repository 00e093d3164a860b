pub mod Linked
pub mod Patterns
pub mod Admitted
