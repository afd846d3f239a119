pub mod Control
pub mod Laws
