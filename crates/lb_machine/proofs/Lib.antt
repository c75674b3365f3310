pub mod Running
pub mod Carrying
pub mod Building
pub mod Listing
pub mod Doing
