pub mod CFeedback
pub mod Laws
