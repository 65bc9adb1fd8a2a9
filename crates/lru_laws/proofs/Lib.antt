pub mod Kept
pub mod Keys
pub mod Mapped
pub mod Places
pub mod Rekeyed
pub mod Seen
pub mod Stored
