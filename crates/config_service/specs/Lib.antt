pub mod Names
pub mod Said
pub mod Spelling
pub mod Canonical
pub mod Texts
pub mod Plans
