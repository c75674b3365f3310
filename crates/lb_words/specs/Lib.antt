pub mod WordValues
pub mod ValuesWords
pub mod Terms
pub mod Words
