pub mod Scenes
pub mod Modes
pub mod Loans
