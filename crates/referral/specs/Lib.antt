-- To be read: what the words of the contracts mean.
pub mod Cuts
pub mod Made
pub mod Members
