pub mod Answering
pub mod BookAnswering
