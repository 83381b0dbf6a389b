pub mod Texts
pub mod Account
pub mod Drives
