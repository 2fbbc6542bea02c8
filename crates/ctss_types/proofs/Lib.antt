pub mod Trim
pub mod Ascii
pub mod FirstWord
pub mod NameCodes
pub mod NameText
