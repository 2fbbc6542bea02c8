pub mod Peeled
pub mod Given
