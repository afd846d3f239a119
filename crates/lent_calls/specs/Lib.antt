pub mod LentCalls
pub mod Statement
