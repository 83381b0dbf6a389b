pub mod Places
pub mod ReportLines
pub mod Deeds
pub mod Ledgers
pub mod Asked
pub mod Standings
pub mod Fronts
pub mod Row
