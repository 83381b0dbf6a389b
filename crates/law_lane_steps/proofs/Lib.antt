pub mod Calm
pub mod Alike
pub mod Ending
pub mod Going
