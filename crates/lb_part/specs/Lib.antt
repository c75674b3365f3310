pub mod Counts
pub mod Cuts
pub mod Failures
pub mod Heads
pub mod Parts
pub mod Ranges
pub mod Skips
pub mod Windows
