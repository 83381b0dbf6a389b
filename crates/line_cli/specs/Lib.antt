pub mod Tracks
pub mod Deeds
pub mod Right
