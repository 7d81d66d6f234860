pub mod Calendar
pub mod Epochs
pub mod Shown
pub mod Promises
pub mod Examples
pub mod Bounds
