-- Types, how many scalar elements they have, and the size of a program.
pub mod TypeFacts
pub mod Widths
pub mod PlacedCalls
pub mod SoundInstances
pub mod SoundPrograms
pub mod PropertyOutput
pub mod TableSizes
pub mod ElementBound
pub mod FoundWidths
