pub mod Parts
pub mod Following
pub mod Watching
pub mod Copying
