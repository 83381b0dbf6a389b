pub mod FloorPlan
pub mod Moves
pub mod Moved
pub mod Boards
pub mod Ids
pub mod Counted
pub mod Events
