pub mod Tables
pub mod Counting
pub mod Books
pub mod Latest
pub mod Reasons
pub mod Rights
pub mod Ending
pub mod Fronts
