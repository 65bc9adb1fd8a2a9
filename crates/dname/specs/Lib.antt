-- To be read: what the words of the contracts mean.
pub mod Labels
pub mod Spelling
pub mod Text
pub mod Wire
pub mod Order
pub mod Stars
pub mod Draft
pub mod Overflows
pub mod Keys
-- Kept: invariants of the code's values, and how contracts see them.
pub mod Kept
pub mod Laws
pub mod Tokens
pub mod Written
