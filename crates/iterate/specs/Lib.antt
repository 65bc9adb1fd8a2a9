-- To be read: what the words of the contracts mean.
pub mod Beginnings
pub mod Inputs
-- Computed: functions that the code is compared with.
pub mod Moves
-- Kept: invariants of the code's values, and how contracts see them.
pub mod Views
