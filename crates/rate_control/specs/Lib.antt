pub mod RateControl
pub mod Laws
pub mod Rows
