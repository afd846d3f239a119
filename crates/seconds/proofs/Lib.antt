pub mod Closest
pub mod Ends
pub mod Fields
