-- To be read: what the words of the contracts mean.
pub mod Waits
-- Kept: invariants of the code's values, and how contracts see them.
pub mod Indexes
