pub mod CellStates
pub mod FirstPlaces
pub mod Found
