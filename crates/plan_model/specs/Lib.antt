pub mod Bases
pub mod Levels
pub mod Loads
pub mod Plan
pub mod Rows
pub mod Spent
pub mod Times
