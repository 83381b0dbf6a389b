pub mod Elements
pub mod Columns
pub mod Rows
pub mod Frames
pub mod Words
pub mod Machines
pub mod Lines
