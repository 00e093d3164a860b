pub mod Promised
pub mod Chunks
pub mod Room
pub mod Crews
