pub mod Laws
pub mod Exact
pub mod Soundings
pub mod Unique
pub mod Good
pub mod Told
