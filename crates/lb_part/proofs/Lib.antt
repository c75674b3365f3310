pub mod FirstRecords
pub mod FoundCuts
pub mod LoadedParts
pub mod ReadRanges
pub mod SkippedLines
pub mod Slashes
pub mod WindowNames
