pub mod Body
pub mod Applications
pub mod Exact
