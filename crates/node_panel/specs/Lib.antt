pub mod Panel
pub mod Inputs
