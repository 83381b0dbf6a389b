pub mod Settled
pub mod LetGo
pub mod Started
pub mod Offered
pub mod Opened
