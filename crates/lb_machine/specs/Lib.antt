pub mod Listed
pub mod Meaning
pub mod Straight
pub mod Within
pub mod Knowing
pub mod Correct
