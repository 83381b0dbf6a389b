pub mod Marks
pub mod Standing
pub mod Told
pub mod Deeds
pub mod Ledger
