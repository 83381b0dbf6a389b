pub mod Channel
pub mod Said
