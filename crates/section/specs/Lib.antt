pub mod Crc
pub mod Header
pub mod Refusals
pub mod Answer
pub mod Whole
