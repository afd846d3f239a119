pub mod AckedBitrateEstimator
pub mod Rows
pub mod Mean
pub mod Laws
