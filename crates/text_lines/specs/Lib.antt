-- To be read: what the words of the contracts mean.
pub mod Lines
pub mod Words
pub mod Texts
pub mod Faults
