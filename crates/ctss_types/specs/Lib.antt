pub mod Line
pub mod Names
pub mod Entries
pub mod Words
pub mod Params
