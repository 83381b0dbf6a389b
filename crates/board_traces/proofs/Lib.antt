pub mod Ledgers
pub mod Once
pub mod Before
pub mod Following
