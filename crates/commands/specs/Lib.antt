-- To be read: what the words of the contracts mean.
pub mod Runs
pub mod Faults
pub mod Texts
pub mod Traces
pub mod Zones
pub mod Asks
pub mod Exchanges
pub mod Files
pub mod Scripts
pub mod Storms
pub mod Servers
pub mod Checks
