pub mod Replaying
pub mod Turning
