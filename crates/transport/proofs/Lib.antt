pub mod Laws
pub mod Exact
pub mod Unique
pub mod Grouped
