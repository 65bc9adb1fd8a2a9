-- To be read: what the words of the contracts mean.
pub mod Classes
pub mod Targets
pub mod Lifetimes
pub mod Narrowed
pub mod Read
pub mod Laws
-- Kept: invariants of the code's values, and how contracts see them.
pub mod Views
