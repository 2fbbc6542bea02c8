pub mod Files
pub mod Next
pub mod Tomorrow
pub mod Laws
pub mod Rows
