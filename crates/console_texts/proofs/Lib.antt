pub mod Rows
pub mod Laws
pub mod Steps
pub mod Watched
pub mod Fresh
pub mod Bytes
