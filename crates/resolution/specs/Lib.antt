-- To be read: what the words of the contracts mean.
pub mod Jobs
pub mod Rules
pub mod Held
pub mod Stops
pub mod Laws
