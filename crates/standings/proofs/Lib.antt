pub mod Standings
pub mod Entries
pub mod Machines
pub mod Ids
