pub mod Script
pub mod Places
pub mod Fold
