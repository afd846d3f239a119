pub mod PassRecords
pub mod Laws
pub mod Rows
pub mod Agree
