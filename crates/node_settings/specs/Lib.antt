pub mod Value
pub mod Settings
