pub mod LeBytes
