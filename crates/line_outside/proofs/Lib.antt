pub mod Pieces
pub mod Growing
pub mod Accounts
pub mod Passing
pub mod Back
pub mod Plain
