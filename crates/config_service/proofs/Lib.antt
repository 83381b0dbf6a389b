pub mod Answering
pub mod Back
pub mod Refusals
pub mod Writing
