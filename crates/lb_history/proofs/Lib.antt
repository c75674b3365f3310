pub mod Committing
pub mod Runs
pub mod Replays
