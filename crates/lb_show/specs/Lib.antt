pub mod Paintings
pub mod Shows
