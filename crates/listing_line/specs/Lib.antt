pub mod ListingLine
pub mod Laws
pub mod Rows
