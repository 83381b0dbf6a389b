pub mod Owned
pub mod Made
pub mod Numbers
pub mod Meanings
pub mod Calls
pub mod Supervised
