pub mod Clocks
pub mod Heard
pub mod Lines
