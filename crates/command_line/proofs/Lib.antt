pub mod Asked
pub mod Parsed
pub mod Rows
pub mod Steps
pub mod WordsRead
mod Saying
