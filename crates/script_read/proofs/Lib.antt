pub mod CardWords
pub mod WrittenOut
pub mod FirstLine
pub mod Tracks
pub mod Trimmed
pub mod LineWords
pub mod Bases
pub mod Users
