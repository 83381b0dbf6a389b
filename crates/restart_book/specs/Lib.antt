pub mod Replay
pub mod Exactly
pub mod Kept
