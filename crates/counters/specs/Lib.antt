-- To be read: what the words of the contracts mean.
pub mod Labels
pub mod Counters
pub mod Outcomes
pub mod Exposition
pub mod Kinds
pub mod Responses
