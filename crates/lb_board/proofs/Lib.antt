pub mod Claiming
pub mod Settling
pub mod Following
pub mod Posting
pub mod Answering
pub mod FollowKeys
