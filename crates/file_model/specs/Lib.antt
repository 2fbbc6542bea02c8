pub mod Files
pub mod Texts
pub mod Owned
pub mod Commons
pub mod Rows
