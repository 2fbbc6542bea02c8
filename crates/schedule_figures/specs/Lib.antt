pub mod Tallies
pub mod Requests
pub mod Work
pub mod Lines
pub mod Levels
pub mod Time
pub mod Maps
pub mod Painted
