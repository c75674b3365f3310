-- Runs of a flat program: its rows at each instant, its memories and its verdict.
pub mod Running
pub mod Fitting
pub mod Judging
pub mod Steps
pub mod Evaluating
pub mod RecordedInputs
pub mod Starting
