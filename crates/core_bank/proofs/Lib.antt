pub mod Backs
pub mod Blocks
pub mod Memories
pub mod Steps
