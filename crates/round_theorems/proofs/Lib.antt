pub mod Window
pub mod Refusals
pub mod Rounds
pub mod Jobs
pub mod Fresh
