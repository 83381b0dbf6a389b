pub mod Ways
pub mod Levels
pub mod Port
pub mod Supervisor
pub mod Numbers
pub mod Seen
pub mod Acts
pub mod Records
