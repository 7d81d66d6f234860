pub mod Holder
pub mod Fault
