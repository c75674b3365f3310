pub mod ReportLines
pub mod SinkBytes
pub mod GoingOut
