pub mod Machines
pub mod Sentences
