pub mod LevelLists
pub mod Loads
pub mod Parts
