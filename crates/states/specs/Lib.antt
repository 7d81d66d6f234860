pub mod Stages
pub mod Saved
pub mod Bounds
