pub mod Ranges
pub mod PathWords
pub mod Words
