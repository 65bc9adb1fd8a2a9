-- To be read: what the words of the contracts mean.
pub mod Runs
pub mod Lists
pub mod FollowUps
pub mod Counts
