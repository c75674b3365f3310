-- Accepted programs: their instances, the occurrences of their expressions, and their histories.
pub mod SameStreams
pub mod SameHistories
pub mod InstancePaths
pub mod Numbers
pub mod AcceptedElements
pub mod OccurrenceSites
pub mod Operands
pub mod OccurrenceParts
pub mod CountedCalls
pub mod StandingParts
pub mod SolutionStreams
pub mod AcceptedRules
pub mod TypedOccurrences
pub mod SiteOccurrences
pub mod ServedVariables
