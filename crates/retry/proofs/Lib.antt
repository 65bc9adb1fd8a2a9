pub mod Exact
pub mod Orders
pub mod Steps
