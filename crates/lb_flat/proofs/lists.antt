-- Lists in general.
pub mod Lists
