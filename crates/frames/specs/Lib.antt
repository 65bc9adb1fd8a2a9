-- To be read: what the words of the contracts mean.
pub mod Frames
pub mod Trimmed
pub mod Members
-- Kept: invariants of the code's values, and how contracts see them.
pub mod Seen
