pub mod Spans
pub mod Worlds
pub mod Laws
pub mod Rows
pub mod Others
pub mod Rules
pub mod DirectoryLaws
pub mod DirectoryRows
