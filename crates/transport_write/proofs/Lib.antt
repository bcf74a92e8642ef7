pub mod Laws
pub mod Exact
pub mod Soundings
pub mod Unique
