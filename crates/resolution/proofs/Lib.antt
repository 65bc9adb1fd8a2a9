pub mod Falls
pub mod Keeping
pub mod Looked
pub mod Passing
