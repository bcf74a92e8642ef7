pub mod Laws
pub mod Complete
pub mod Exact
pub mod Unique
