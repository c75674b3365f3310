-- The order of the equations, what reads what, and cycles.
pub mod Ordering
pub mod ReadCycles
pub mod Tables
