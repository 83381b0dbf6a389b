pub mod Forecasts
pub mod Find
pub mod Info
