-- To be read: what the words of the contracts mean.
pub mod Refusals
pub mod Hosting
pub mod Judging
-- Computed: functions that the code is compared with.
pub mod Rules
-- Kept: invariants of the code's values, and how contracts see them.
pub mod Kept
