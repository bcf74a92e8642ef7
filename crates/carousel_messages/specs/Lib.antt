pub mod Message
pub mod Contents
pub mod Limits
pub mod Refusals
pub mod Judged
pub mod Heard
pub mod Good
