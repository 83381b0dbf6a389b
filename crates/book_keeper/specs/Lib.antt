pub mod Keeping
pub mod Shelf
