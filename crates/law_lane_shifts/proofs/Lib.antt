pub mod Announcing
pub mod Told
pub mod Leaving
pub mod Along
