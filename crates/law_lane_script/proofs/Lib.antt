pub mod Showing
pub mod Seeing
pub mod Moving
pub mod Standing
pub mod Running
