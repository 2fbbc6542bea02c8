pub mod Fields
pub mod Runs
