pub mod Laws
pub mod Unique
pub mod Whole
pub mod Charts
