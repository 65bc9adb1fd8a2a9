pub mod Repeating
pub mod Naming
