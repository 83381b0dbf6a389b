mod Asked
pub mod Rows
pub mod Together
pub mod IntakeLaws
pub mod Deeds
pub mod Sights
