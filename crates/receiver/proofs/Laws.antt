pub mod Fates
pub mod Places
pub mod Runs
pub mod Takes
pub mod Refusals
pub mod Held
