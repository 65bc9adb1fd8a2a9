-- To be read: what the words of the contracts mean.
pub mod Parcels
pub mod Targets
pub mod Senders
pub mod Roles
pub mod Repeats
pub mod Blocks
pub mod Places
pub mod Questions
