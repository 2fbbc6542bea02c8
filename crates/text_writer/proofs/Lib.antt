pub mod Added
pub mod OctalDigits
pub mod FirstCard
pub mod Lines
pub mod Right
pub mod Accounts
pub mod Entries
