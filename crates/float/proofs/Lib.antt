pub mod Library
pub mod Ceiling
