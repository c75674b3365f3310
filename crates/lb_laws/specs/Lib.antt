pub mod ClockAssignments
pub mod LaneRuns
pub mod Ticks
pub mod MemoryWaits
