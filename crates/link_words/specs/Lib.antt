pub mod LinkWords
pub mod Laws
pub mod Reading
