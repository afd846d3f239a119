pub mod Questions
pub mod Laws
