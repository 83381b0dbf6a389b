mod Holding
mod Along
mod Links
pub mod Folds
pub mod Orderly
pub mod Halves
pub mod Hearing
pub mod Telling
pub mod WrongWords
pub mod Happenings
pub mod OpeningSteps
pub mod OpeningRunning
pub mod Book
pub mod Told
pub mod Steps
pub mod Lines
pub mod Running
pub mod There
pub mod Pieces
pub mod Hands
pub mod Whole
pub mod Queue
pub mod Moves
pub mod Orders
pub mod Reaching
