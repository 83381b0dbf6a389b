mod Telling
mod Lines
mod Supervised
pub mod Values
