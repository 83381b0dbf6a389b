pub mod Played
pub mod OwnIds
