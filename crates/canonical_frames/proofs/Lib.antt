pub mod Lists
pub mod Moments
pub mod Ids
pub mod Decimals
pub mod Values
pub mod Rows
pub mod Frames
