pub mod Blocks
pub mod Calls
pub mod Images
pub mod Beginnings
pub mod Working
pub mod Resizing
pub mod Listed
