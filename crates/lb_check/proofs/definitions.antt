-- The rules of definitions, and the first rule that a program breaks.
pub mod Defining
pub mod NodePlaces
pub mod NodeDefinitions
pub mod BrokenRules
pub mod CallNumbers
