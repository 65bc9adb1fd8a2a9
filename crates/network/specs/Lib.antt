-- To be read: what the words of the contracts mean.
pub mod Networks
pub mod Laws
