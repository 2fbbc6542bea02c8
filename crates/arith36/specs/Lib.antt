pub mod Arith
pub mod Shift
