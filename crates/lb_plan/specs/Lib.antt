pub mod Plans
pub mod Cuts
