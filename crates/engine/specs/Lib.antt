-- To be read: what the words of the contracts mean.
pub mod Promises
pub mod Beginnings
pub mod Turns
pub mod Histories
pub mod AtHand
-- Computed: functions that the code is compared with.
pub mod Moves
pub mod Calls
pub mod Finds
-- Kept: invariants of the code's values, and how contracts see them.
pub mod ResolverStates
pub mod Replies
