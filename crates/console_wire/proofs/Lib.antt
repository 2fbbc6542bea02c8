pub mod Halves
pub mod Cuts
pub mod TypedLaws
pub mod RowsComputed
