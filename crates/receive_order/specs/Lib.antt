pub mod ReceiveOrder
pub mod Lists
pub mod Parts
pub mod Sorting
pub mod Keys
pub mod Laws
pub mod Rows
