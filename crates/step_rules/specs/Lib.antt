pub mod Causes
pub mod Made
pub mod Acts
pub mod Opened
pub mod Makers
pub mod Spoken
