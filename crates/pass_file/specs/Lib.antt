pub mod PassFile
pub mod Judged
pub mod Laws
pub mod Rows
pub mod Unlinked
pub mod Limits
