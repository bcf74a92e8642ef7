pub mod Laws
pub mod Heard
pub mod Exact
pub mod Unique
pub mod Soundings
