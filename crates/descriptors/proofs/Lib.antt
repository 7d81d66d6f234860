pub mod Shown
pub mod Names
pub mod Inside
