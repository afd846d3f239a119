pub mod State
pub mod Limits
pub mod Laws
