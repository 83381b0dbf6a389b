pub mod Parts
pub mod Reaching
pub mod Coming
pub mod Together
