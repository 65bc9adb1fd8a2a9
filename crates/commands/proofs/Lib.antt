pub mod Broken
pub mod Checks
pub mod Scripts
pub mod Servers
pub mod Storms
