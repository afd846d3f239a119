pub mod Feedback
pub mod Numbers
pub mod Chunks
pub mod Judging
