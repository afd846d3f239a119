pub mod Rows
pub mod Digits
pub mod Products
pub mod Equal
pub mod Cases
