pub mod Acting
pub mod Happening
pub mod Playing
pub mod Right
