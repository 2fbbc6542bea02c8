pub mod Turns
pub mod Changes
pub mod Stores
pub mod Calls
