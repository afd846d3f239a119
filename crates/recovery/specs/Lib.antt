pub mod Recovery
pub mod Runs
