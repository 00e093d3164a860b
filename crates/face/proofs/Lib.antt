pub mod Laws
pub mod Lowest
pub mod Sets
