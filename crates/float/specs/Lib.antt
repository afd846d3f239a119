pub mod Float
pub mod MinMax
pub mod Ceil
