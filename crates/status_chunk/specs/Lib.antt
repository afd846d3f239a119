pub mod Chunk
pub mod Laws
