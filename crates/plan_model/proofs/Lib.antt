pub mod Counts
pub mod Least
pub mod LoadLaws
pub mod RiseLaws
pub mod RowsComputed
pub mod SpentLaws
pub mod StaysLoaded
pub mod Times
