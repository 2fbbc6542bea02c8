pub mod Muted
pub mod Cuts
pub mod MemoryLaws
