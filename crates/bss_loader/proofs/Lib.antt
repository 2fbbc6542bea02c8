pub mod Runs
pub mod Words
pub mod Names
pub mod Links
