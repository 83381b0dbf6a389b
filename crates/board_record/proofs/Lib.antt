pub mod Ids
pub mod IdTexts
pub mod Sizes
