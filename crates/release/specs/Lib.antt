pub mod Composed
pub mod OneByOne
