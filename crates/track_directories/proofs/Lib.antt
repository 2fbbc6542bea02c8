pub mod Tables
pub mod AddLaws
pub mod Bare
pub mod Dropped
pub mod Lying
