pub mod Demand
pub mod Quiet
pub mod Shore
pub mod Transport
pub mod Whole
