pub mod Items
pub mod Laws
pub mod Rows
pub mod Half
pub mod Shape
