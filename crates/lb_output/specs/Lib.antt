pub mod Reports
pub mod Taken
pub mod Follows
