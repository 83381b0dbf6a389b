pub mod Solid
pub mod Inner
pub mod Reading
