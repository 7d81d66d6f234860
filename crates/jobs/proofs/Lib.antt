pub mod Tests
pub mod Turning
pub mod Areas
