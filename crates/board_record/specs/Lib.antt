pub mod BoardId
pub mod SubBoards
pub mod Shared
pub mod Record
pub mod Kept
pub mod Maker
