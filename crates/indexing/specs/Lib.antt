pub mod Index
pub mod Due
