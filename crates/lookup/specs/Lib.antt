-- To be read: what the words of the contracts mean.
pub mod Ends
pub mod Found
pub mod Held
pub mod Uses
-- Kept: invariants of the code's values, and how contracts see them.
pub mod Views
