pub mod Doubles
pub mod Layouts
pub mod Vax
pub mod Rounding
pub mod Words
pub mod Bounds
pub mod Promises
pub mod Examples
