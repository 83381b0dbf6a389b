pub mod Within
pub mod Announced
pub mod Answers
pub mod Records
pub mod Contents
pub mod There
pub mod Order
pub mod Along
