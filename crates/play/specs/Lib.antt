-- To be read: what the words of the contracts mean.
pub mod Played
pub mod Plays
pub mod Shown
pub mod Counts
-- Kept: invariants of the code's values, and how contracts see them.
pub mod Seen
