pub mod Broken
pub mod Doing
