pub mod Lists
pub mod Laws
pub mod Run
pub mod Reading
