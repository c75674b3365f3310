pub mod Operators
pub mod Planes
pub mod Kernels
pub mod Halves
pub mod Transposes
pub mod Reciprocals
pub mod Correct
