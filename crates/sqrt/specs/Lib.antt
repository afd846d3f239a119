pub mod Sqrt
pub mod WholeRoot
pub mod Laws
pub mod RootBits
pub mod Rounded
pub mod Units
pub mod Nearest
pub mod NearestLaws
