pub mod Links
pub mod Tallies
pub mod Memory
pub mod Fields
