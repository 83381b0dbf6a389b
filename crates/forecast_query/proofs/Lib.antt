pub mod Matching
pub mod Keeping
