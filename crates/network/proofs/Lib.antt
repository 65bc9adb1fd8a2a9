pub mod Asked
pub mod Brought
pub mod Owned
pub mod Follows
pub mod Carried
