pub mod Laws
pub mod Meaning
pub mod Whole
pub mod Soundings
pub mod Unique
pub mod Lacks
