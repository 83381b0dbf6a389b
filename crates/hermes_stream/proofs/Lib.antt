pub mod Ends
pub mod Streams
pub mod Parts
pub mod Cuts
pub mod Runs
pub mod Alone
