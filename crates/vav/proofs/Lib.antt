pub mod Attributes
pub mod Laws
pub mod Laid
