pub mod Drawing
pub mod Running
pub mod Whole
