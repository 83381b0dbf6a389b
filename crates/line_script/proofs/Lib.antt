pub mod Items
pub mod Said
pub mod Tokens
