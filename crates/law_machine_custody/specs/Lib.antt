pub mod Scene
pub mod Good
pub mod Unique
pub mod Flight
pub mod ByHand
pub mod Joined
pub mod Ahead
pub mod InTime
