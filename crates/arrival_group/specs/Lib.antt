pub mod ArrivalGroup
pub mod Laws
pub mod Rows
