pub mod Step
pub mod Matching
pub mod Held
