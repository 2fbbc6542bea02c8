pub mod Arith
pub mod Codes
pub mod Places
pub mod Names
