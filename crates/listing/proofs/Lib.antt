pub mod Sets
pub mod Rows
pub mod Keys
pub mod Listing
