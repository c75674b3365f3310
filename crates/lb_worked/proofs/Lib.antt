mod CausalTest
mod SolvesTest
mod Tests
mod Verdicts
mod WorkedLevels
