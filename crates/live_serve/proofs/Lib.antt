pub mod Closing
pub mod Ticks
pub mod Behind
pub mod Shown
pub mod Ends
pub mod Outcomes
pub mod Stopping
