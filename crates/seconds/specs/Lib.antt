pub mod Seconds
pub mod Laws
