pub mod Reading
pub mod Answering
pub mod Refusing
pub mod Limit
pub mod Causes
