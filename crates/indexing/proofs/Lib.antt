pub mod Booking
pub mod Doing
pub mod Due
