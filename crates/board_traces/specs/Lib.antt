pub mod Reading
pub mod Course
pub mod Courses
pub mod Held
pub mod Texts
pub mod Trace
