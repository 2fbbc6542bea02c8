pub mod RowsComputed
pub mod Listings
