mod Ending
mod Goings
mod Handed
