pub mod Calls
pub mod Following
pub mod Media
pub mod Starts
pub mod Finishes
pub mod Parts
pub mod Beginnings
pub mod Texts
