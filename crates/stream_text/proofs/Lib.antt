pub mod ReadFrames
pub mod ReadFronts
pub mod ReadSteps
pub mod Copied
