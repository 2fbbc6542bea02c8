pub mod Shown
pub mod Seen
pub mod Asked
pub mod Input
pub mod Programs
