pub mod Asked
pub mod Watching
