pub mod Loads
pub mod Links
pub mod Ports
pub mod Lines
pub mod Rows
