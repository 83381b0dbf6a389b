pub mod LineEnds
pub mod Verdict
pub mod Written
pub mod LogReader
pub mod Reading
