-- What the code that expands emits, word by word.
pub mod EmittedStacks
pub mod EmissionSteps
pub mod TermSteps
pub mod TermSizes
pub mod EmittedChains
pub mod EmittedStatements
pub mod EmittedWalks
pub mod EmittedCuts
pub mod EmittedRooms
pub mod EmittedCalls
pub mod EmittedWhole
pub mod EmittedProgram
pub mod EmittedTerms
pub mod EmittedTable
