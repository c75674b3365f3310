pub mod Programs
pub mod Sending
pub mod Values
