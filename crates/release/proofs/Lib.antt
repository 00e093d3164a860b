-- The laws for the functions of src/.
pub mod Composed
pub mod OneByOne
