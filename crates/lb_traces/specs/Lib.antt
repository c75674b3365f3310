pub mod Traces
pub mod Ledger
pub mod Stored
pub mod Packed
pub mod BitRows
pub mod Narrow
pub mod NumberRows
