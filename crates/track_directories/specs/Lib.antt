pub mod Directories
pub mod Tables
pub mod Firsts
pub mod Calls
