pub mod ReadOnce
pub mod ReportOnce
pub mod MadeOnce
pub mod Tracks
pub mod LedgerTold
pub mod Spared
