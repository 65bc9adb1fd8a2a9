-- To be read: what the words of the contracts mean.
pub mod Limits
pub mod Errors
pub mod Results
pub mod Drafts
pub mod Asked
pub mod Laws
pub mod Shown
-- Computed: functions that the code is compared with.
pub mod Entries
pub mod Heads
pub mod Parts
pub mod Numbers
pub mod Values
pub mod Skips
pub mod Echoes
-- Kept: invariants of the code's values, and how contracts see them.
pub mod Puts
pub mod Chains
pub mod Shapes
pub mod Plain
pub mod Spellings
pub mod Views
