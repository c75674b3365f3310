pub mod Cutting
pub mod ByLength
pub mod LastFirst
pub mod WholePlans
