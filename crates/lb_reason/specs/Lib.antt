pub mod Deciding
pub mod Tests
pub mod Moments
pub mod Reasons
pub mod Ends
