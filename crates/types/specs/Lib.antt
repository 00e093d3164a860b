pub mod Tests
pub mod Fresh
