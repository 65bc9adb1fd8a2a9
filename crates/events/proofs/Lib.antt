pub mod Plainly
pub mod Short
