pub mod DoneActs
