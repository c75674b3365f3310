-- The clocks and the kinds of an expansion fit.
pub mod FitWords
pub mod KindFacts
pub mod FitCalls
pub mod FitTerms
pub mod FitStatements
pub mod FitProgram
