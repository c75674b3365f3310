pub mod Words
pub mod lists
pub mod solutions
pub mod runs
pub mod ordering
