pub mod OneAssignment
pub mod ComputedClocks
pub mod ClockAssignments
pub mod LaneRuns
pub mod AbsentCells
pub mod AbsentStreams
pub mod MemoryWaits
