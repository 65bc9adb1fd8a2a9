-- To be read: what the words of the contracts mean.
pub mod Parts
pub mod Entries
pub mod Lines
-- Computed: functions that the code is compared with.
pub mod Lexemes
-- Kept: invariants of the code's values, and how contracts see them.
pub mod Views
pub mod Steps
