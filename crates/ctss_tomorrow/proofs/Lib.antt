mod KeptFiles
mod Headline
pub mod Users
pub mod KeptLaws
pub mod Bases
pub mod Quiet
pub mod Read
pub mod RowsComputed
