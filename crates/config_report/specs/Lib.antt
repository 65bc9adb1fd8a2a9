-- To be read: what the words of the contracts mean.
pub mod Sentences
pub mod Reports
pub mod Culprits
pub mod Notes
pub mod Shown
