pub mod Talks
pub mod Live
pub mod Hosts
pub mod Stops
