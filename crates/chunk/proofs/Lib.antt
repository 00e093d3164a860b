pub mod Rooms
pub mod Printing
pub mod Answered
