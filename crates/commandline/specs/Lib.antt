-- To be read: what the words of the contracts mean.
pub mod Says
pub mod Grammar
pub mod Faults
pub mod Helps
