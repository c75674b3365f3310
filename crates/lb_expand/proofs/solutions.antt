-- Solutions of a flat program and histories of its program: each comes from the other.
pub mod Placing
pub mod Emission
pub mod Closing
pub mod Solving
pub mod Watching
pub mod FlatHistories
pub mod KeptMemories
pub mod FlatStanding
pub mod Filling
pub mod FilledFits
