pub mod Texts
pub mod Parts
pub mod Flow
pub mod Link
