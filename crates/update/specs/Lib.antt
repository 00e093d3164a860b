pub mod Outcome
pub mod Runs
