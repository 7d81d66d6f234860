pub mod Elements
pub mod Places
pub mod Fitting
pub mod Asked
pub mod Telling
