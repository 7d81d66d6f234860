pub mod Bytes
pub mod Fields
pub mod Tables
pub mod Types
pub mod Encodings
pub mod Numbers
