pub mod PartTexts
pub mod Reported
pub mod Stretches
