-- Solutions of a flat program, and the histories and verdicts of the program that it stands
-- for. Nothing here depends on how the program was expanded.
pub mod StandingRuns
