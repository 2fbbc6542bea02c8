pub mod RowsComputed
