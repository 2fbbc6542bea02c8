pub mod Outside
pub mod Memory
pub mod Standard
pub mod Whole
