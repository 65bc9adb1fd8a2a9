pub mod Exact
pub mod Making
pub mod Members
pub mod Named
pub mod Shown
pub mod Steps
