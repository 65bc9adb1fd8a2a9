-- To be read: what the words of the contracts mean.
pub mod Events
pub mod Actions
-- Kept: invariants of the code's values, and how contracts see them.
pub mod Views
