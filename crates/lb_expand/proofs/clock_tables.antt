-- The table of the clocks of all instances.
pub mod ClockTable
pub mod KnownClocks
pub mod SignStreams
pub mod ServingClocks
pub mod AddedClocks
pub mod FilledClocks
pub mod ClockEntries
