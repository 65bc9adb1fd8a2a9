mod Shifted
pub mod Fuel
mod Heads
pub mod PartsLaw
pub mod LineLaw
pub mod LinesLaw
mod LineEnds
