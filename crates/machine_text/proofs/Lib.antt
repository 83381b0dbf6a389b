mod Reading
mod Doing
