pub mod Chained
pub mod Widened
pub mod Small
pub mod Leads
pub mod Closed
pub mod Variables
