pub mod Stepped
pub mod Indexed
pub mod Seats
pub mod AllMarks
