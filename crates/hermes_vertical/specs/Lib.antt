pub mod Rows
pub mod Parts
pub mod Questions
pub mod Spelling
pub mod Canonical
pub mod Written
