pub mod Words
pub mod Faults
pub mod Listing
pub mod ModuleListing
pub mod Cards
pub mod Rows
