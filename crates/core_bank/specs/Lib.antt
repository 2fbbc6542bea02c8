pub mod Bank
pub mod Lent
pub mod Parts
pub mod Window
