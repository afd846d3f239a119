pub mod Dyadic
pub mod Relative
pub mod Equal
pub mod Gaps
