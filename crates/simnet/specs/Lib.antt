-- To be read: what the words of the contracts mean.
pub mod Beginnings
pub mod Promises
-- Kept: invariants of the code's values, and how contracts see them.
pub mod Replies
pub mod Views
