pub mod Limit
pub mod Vdr
pub mod Place
pub mod Bounds
pub mod Numbering
