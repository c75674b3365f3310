-- What a row of the table of instances reads through its frame.
pub mod RowContexts
pub mod TermPlaces
pub mod FramedRows
pub mod FramedContexts
pub mod ReadyProgram
