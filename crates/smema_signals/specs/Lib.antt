pub mod Edge
pub mod Giver
pub mod Taker
