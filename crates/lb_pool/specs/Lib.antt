pub mod Correct
pub mod Runs
pub mod Workers
pub mod RightReports
pub mod FollowWorkers
pub mod Postings
pub mod PostingLaws
