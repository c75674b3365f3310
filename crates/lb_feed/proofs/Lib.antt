pub mod Passing
pub mod Counts
pub mod FeedBytes
pub mod WindowReads
mod WindowTexts
pub mod PlacedFiles
mod PlacedTexts
pub mod Sectioning
pub mod RangeEnds
pub mod WholeFiles
mod ChunkNumbers
mod CaseParts
