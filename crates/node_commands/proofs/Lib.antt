pub mod Bounds
pub mod Files
pub mod Doing
pub mod Beginning
