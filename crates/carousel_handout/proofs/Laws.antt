pub mod Calls
pub mod Lacks
