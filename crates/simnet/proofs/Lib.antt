pub mod Begun
pub mod Truncated
pub mod Given
pub mod Shown
pub mod Stepped
