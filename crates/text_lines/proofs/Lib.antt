pub mod Addresses
pub mod Pieces
pub mod Blanks
