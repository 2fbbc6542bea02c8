pub mod Writing
pub mod Lines
pub mod Sums
pub mod ReportLines
