pub mod Known
pub mod Compared
pub mod FreshCubes
