pub mod Owners
mod Counted
mod Places
mod RowsComputed
