pub mod Framed
pub mod Heard
pub mod Fit
