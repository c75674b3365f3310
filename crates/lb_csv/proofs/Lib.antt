pub mod Texts
pub mod Records
pub mod Rows
