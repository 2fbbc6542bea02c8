pub mod Words
pub mod Swaps
pub mod Usable
pub mod Lent
pub mod Backing
pub mod Settles
