-- To be read: what the words of the contracts mean.
pub mod Zones
pub mod Links
pub mod Referrals
pub mod Ruled
pub mod Faults
pub mod Same
pub mod Tree
-- Computed: functions that the code is compared with.
pub mod Look
pub mod Rules
pub mod Last
-- Kept: invariants of the code's values, and how contracts see them.
pub mod Kept
pub mod Values
pub mod Views
