pub mod Lists
pub mod Owners
pub mod Uses
pub mod Kept
pub mod Times
pub mod FoundEnds
pub mod Following
