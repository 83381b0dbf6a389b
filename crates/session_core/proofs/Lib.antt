pub mod Rows
pub mod RowLaws
pub mod Silence
pub mod States
pub mod Texts
