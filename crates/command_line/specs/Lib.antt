pub mod Places
pub mod Explained
pub mod Said
