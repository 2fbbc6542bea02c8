pub mod Bound
pub mod Served
pub mod Waits
pub mod Laws
pub mod Rows
pub mod Unbounded
