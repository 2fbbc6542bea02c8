pub mod Owned
pub mod RowsComputed
