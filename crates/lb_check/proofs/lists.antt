-- Lists in general.
pub mod ListPairs
pub mod Members
