-- To be read: what the words of the contracts mean.
pub mod Cached
pub mod Keys
pub mod Given
pub mod Members
pub mod Aging
pub mod Failures
-- Kept: invariants of the code's values, and how contracts see them.
pub mod Forms
pub mod Hashed
pub mod Kinds
pub mod Laws
pub mod FailureLaws
pub mod Denials
pub mod Packed
