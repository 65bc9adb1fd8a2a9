-- To be read: what the words of the contracts mean.
pub mod States
pub mod Messages
pub mod Steps
pub mod Runs
pub mod Replies
pub mod Laws
