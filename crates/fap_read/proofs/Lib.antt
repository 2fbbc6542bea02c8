pub mod Blanks
pub mod FirstLine
pub mod Parts
pub mod Items
pub mod DigitLists
pub mod Machines
pub mod Packing
pub mod FileCards
