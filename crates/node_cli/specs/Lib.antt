pub mod Logged
pub mod Answered
pub mod BookAnswered
