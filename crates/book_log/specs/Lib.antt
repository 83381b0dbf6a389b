pub mod Told
pub mod One
