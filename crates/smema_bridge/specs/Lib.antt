pub mod Levels
pub mod Segment
pub mod Signals
pub mod Calls
