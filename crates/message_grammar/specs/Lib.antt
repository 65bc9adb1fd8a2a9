-- To be read: what the words of the contracts mean.
pub mod Names
pub mod Pieces
pub mod Places
pub mod Messages
pub mod Compression
pub mod Laws
-- Computed: functions that the code is compared with.
pub mod Packing
