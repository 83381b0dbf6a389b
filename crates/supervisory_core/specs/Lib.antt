pub mod Orders
pub mod Calls
pub mod Told
pub mod Row
pub mod Table
pub mod Run
