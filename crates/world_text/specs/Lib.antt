-- To be read: what the words of the contracts mean.
pub mod Worlds
pub mod WorldTexts
pub mod Statements
pub mod Readings
pub mod WorldFaults
pub mod Keywords
pub mod Places
-- Kept: invariants of the code's values, and how contracts see them.
pub mod Seen
