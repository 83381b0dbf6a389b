pub mod Rows
pub mod OutletLaws
pub mod Together
pub mod Starts
pub mod Deeds
