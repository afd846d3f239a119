pub mod AnyWords
pub mod Demand3
pub mod Held
