pub mod Given
pub mod Sharing
