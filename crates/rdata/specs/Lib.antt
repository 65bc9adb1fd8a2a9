-- To be read: what the words of the contracts mean.
pub mod Data
pub mod Types
pub mod Records
pub mod Sets
pub mod Selected
pub mod Targets
pub mod Caps
pub mod Ages
pub mod Text
-- Computed: functions that the code is compared with.
pub mod Order
pub mod Equality
-- Kept: invariants of the code's values, and how contracts see them.
pub mod Kept
pub mod Gathering
pub mod Rows
pub mod Later
pub mod Strings
pub mod Shared
