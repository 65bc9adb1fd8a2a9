-- To be read: what the words of the contracts mean.
pub mod Longest
-- Kept: invariants of the code's values, and how contracts see them.
pub mod Kept
-- Branches: where the notes of one size are found.
pub mod Branches
