pub mod Lanes
pub mod Shifts
pub mod Texts
