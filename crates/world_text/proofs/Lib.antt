pub mod Building
pub mod Places
pub mod Reading
pub mod WorldTexts
