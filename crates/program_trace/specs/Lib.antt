pub mod Lone
pub mod Traces
pub mod Instructions
pub mod Registers
pub mod Texts
pub mod Programs
pub mod Steps
pub mod Steppings
