pub mod Passrun
pub mod Laws
