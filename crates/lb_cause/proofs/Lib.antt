pub mod NamedNodes
