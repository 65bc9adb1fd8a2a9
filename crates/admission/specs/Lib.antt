-- To be read: what the words of the contracts mean.
pub mod States
pub mod Moves
pub mod Runs
pub mod Waiting
