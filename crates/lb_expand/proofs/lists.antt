-- Lists in general.
pub mod Lists
pub mod Counting
