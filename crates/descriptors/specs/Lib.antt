pub mod Descriptors
pub mod Bounds
