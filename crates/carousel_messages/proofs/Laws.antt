pub mod Limits
pub mod Refusals
pub mod Listed
pub mod Reading
pub mod Heard
