pub mod Unique
pub mod Meaning
