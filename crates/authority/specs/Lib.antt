-- To be read: what the words of the contracts mean.
pub mod Catalogs
pub mod OneAnswer
pub mod Walk
pub mod CatalogFaults
-- Computed: functions that the code is compared with.
pub mod Climb
-- Kept: invariants of the code's values, and how contracts see them.
pub mod Answers
pub mod Origins
pub mod Values
