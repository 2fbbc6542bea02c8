pub mod Bits
pub mod Octal
