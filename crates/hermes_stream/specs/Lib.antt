pub mod Frames
pub mod Cutter
pub mod Scan
pub mod Block
pub mod Rests
