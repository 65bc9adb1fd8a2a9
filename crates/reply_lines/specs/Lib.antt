-- To be read: what the words of the contracts mean.
pub mod Lines
pub mod Asks
pub mod Actions
