pub mod Ready
pub mod Devices
pub mod Replays
pub mod Cards
pub mod Consoles
pub mod Sent
