pub mod Saying
pub mod Seen
