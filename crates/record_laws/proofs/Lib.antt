pub mod Sums
pub mod Cover
pub mod Loaded
pub mod RowsComputed
mod OthersComputed
pub mod Names
pub mod Changes
pub mod Steps
pub mod Machines
pub mod Directories
pub mod DirectoryRowsComputed
