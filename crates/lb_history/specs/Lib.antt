pub mod Replaying
pub mod Histories
pub mod Replays
pub mod ReplayParts
