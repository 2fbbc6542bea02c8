pub mod Step
pub mod Fixed
pub mod Logic
pub mod Index
pub mod Machine
pub mod Results
pub mod Rows
pub mod Runs
