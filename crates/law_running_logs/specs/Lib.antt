pub mod Told
pub mod LedgerExample
pub mod Merged
pub mod Right
pub mod Example
