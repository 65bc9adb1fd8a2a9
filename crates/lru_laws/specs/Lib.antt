-- To be read: what the words of the contracts mean.
pub mod Orders
pub mod Stores
