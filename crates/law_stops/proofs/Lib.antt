pub mod TurnZero
pub mod Momentless
pub mod Stopping
pub mod Alike
