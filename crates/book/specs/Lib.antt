-- To be read: what the words of the contracts mean.
pub mod Histories
pub mod Books
