-- The layout by numbers, and the expansion of an accepted program in it.
pub mod NumberedPlaces
pub mod RowInstances
pub mod RowVariables
pub mod NumberedRows
pub mod RowChildren
pub mod StoredLayouts
pub mod NumberedFits
pub mod AcceptedExpansion
pub mod ReceivedInputs
pub mod TableProgram
