pub mod Trendline
pub mod Rows
pub mod Threshold
pub mod History
pub mod Term
pub mod Slope
pub mod Milliseconds
pub mod Laws
