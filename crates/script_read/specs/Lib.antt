pub mod Others
pub mod Drafts
pub mod Answers
pub mod Bases
