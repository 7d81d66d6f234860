pub mod Answers
pub mod Refusals
pub mod Range
pub mod Any
pub mod Splits
pub mod Promised
pub mod Padding
