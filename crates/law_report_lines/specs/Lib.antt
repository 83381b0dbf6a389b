pub mod Lines
pub mod Proper
