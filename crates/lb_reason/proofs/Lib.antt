pub mod Chains
pub mod Ends
pub mod Firsts
pub mod Judged
pub mod Ranks
pub mod Steps
