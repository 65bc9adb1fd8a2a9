pub mod Lists
pub mod Kept
pub mod Steps
pub mod KeptRuns
pub mod Lines
pub mod Waiters
