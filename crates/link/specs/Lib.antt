pub mod Link
pub mod Laws
