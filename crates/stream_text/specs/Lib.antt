pub mod ReadText
pub mod Stream
pub mod StreamReader
