pub mod Listings
pub mod Verdicts
pub mod Indexed
pub mod Plain
pub mod Compared
pub mod Junit
pub mod Merged
