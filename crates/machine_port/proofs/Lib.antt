mod Putting
mod Counting
mod Stepping
mod Supervising
