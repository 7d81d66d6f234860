pub mod Capped
pub mod Places
pub mod Product
pub mod Bound
pub mod Numbering
pub mod Rule
mod Shapes
