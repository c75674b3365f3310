-- What the elements of an expansion read, and what they need.
pub mod NeedsOfCopies
pub mod LinkWords
pub mod LinkSymbols
pub mod LinkTerms
pub mod NumberedReads
