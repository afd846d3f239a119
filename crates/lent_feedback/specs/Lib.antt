pub mod Typed
pub mod Statement
