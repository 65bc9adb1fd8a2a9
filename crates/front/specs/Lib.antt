-- To be read: what the words of the contracts mean.
pub mod Queries
pub mod Openings
pub mod Chains
pub mod Steps
pub mod Replies
pub mod Laws
