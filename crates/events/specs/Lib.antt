-- To be read: what the words of the contracts mean.
pub mod Laws
-- Kept: invariants of the code's values, and how contracts see them.
pub mod Paths
pub mod Plain
pub mod Views
