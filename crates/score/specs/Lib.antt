-- To be read: what the words of the contracts mean.
pub mod Clients
pub mod Sends
pub mod Counts
