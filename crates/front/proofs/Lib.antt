pub mod Hearing
pub mod Limits
pub mod Following
pub mod Single
pub mod Short
pub mod Echoes
pub mod Written
