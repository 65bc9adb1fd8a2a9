pub mod Appends
pub mod Names
