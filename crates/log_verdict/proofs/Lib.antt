pub mod LinesLemmas
pub mod Following
pub mod Going
pub mod Verdicts
