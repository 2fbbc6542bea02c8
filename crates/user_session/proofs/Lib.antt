pub mod Enters
pub mod Files
pub mod Knowing
pub mod Turns
pub mod Debugs
pub mod Words
pub mod Assemblies
pub mod CommandFiles
