-- To be read: what the words of the contracts mean.
pub mod Staff
pub mod Steps
pub mod Passages
pub mod Faults
-- Kept: what the code's own values keep.
pub mod Addresses
pub mod Waits
pub mod Askers
pub mod Domains
pub mod Keys
pub mod Entries
pub mod Tallies
pub mod Failures
pub mod Crowds
pub mod Arrivals
pub mod Endings
pub mod Sockets
