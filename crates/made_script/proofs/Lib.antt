pub mod Decimals
pub mod Loops
pub mod Range
pub mod Lawful
