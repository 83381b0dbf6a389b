pub mod Answered
pub mod Naming
pub mod Numbering
pub mod Shared
pub mod Shifting
pub mod Stepped
pub mod There
