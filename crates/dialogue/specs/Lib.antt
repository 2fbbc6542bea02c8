pub mod Said
pub mod Unread
pub mod Words
pub mod Places
pub mod Made
