pub mod Undisturbed
pub mod Steps
pub mod Play
