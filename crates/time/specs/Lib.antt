pub mod Time
pub mod Laws
pub mod Tables
pub mod Orders
mod Rows
