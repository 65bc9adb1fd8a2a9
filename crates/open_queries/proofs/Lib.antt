pub mod Slots
pub mod Pigeons
pub mod Apart
pub mod Waits
pub mod Indexed
pub mod Free
