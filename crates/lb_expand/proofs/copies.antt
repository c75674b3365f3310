-- The copies that join variables up: of calls, of left variables and of inputs.
pub mod CopiedElements
pub mod GivenCalls
pub mod GivenProgram
pub mod CopiedCalls
pub mod CopiedBodies
pub mod CopiedProgram
pub mod CallCopies
