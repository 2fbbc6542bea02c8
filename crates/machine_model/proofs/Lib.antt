pub mod RowsComputed
pub mod Runs
