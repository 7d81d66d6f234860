pub mod Parts
pub mod Onward
