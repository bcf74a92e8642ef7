pub mod Crc
pub mod Refusals
pub mod Exact
pub mod Places
pub mod Whole
