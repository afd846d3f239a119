pub mod Bandwidth
pub mod Order
