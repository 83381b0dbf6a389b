pub mod Announced
pub mod Undisturbed
pub mod Twelve
pub mod Example
pub mod Play
