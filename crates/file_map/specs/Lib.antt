pub mod Answers
pub mod Known
pub mod Directory
pub mod Listing
pub mod Table
pub mod Applied
