pub mod Bools
pub mod Table
