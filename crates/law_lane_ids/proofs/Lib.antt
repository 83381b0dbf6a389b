pub mod Steps
pub mod Aging
pub mod Making
