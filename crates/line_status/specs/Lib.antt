pub mod Status
pub mod Pieces
