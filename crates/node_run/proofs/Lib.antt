pub mod Accounts
pub mod Nexts
pub mod Frames
pub mod Heard
pub mod Configured
pub mod Holding
pub mod Taking
mod Short
pub mod Closing
pub mod Far
pub mod Again
pub mod Moving
pub mod Booking
pub mod Cutting
pub mod Bounded
pub mod Owns
pub mod Replaying
pub mod Settling
