pub mod Command
pub mod Books
pub mod Ends
pub mod BookEnds
pub mod Taking
