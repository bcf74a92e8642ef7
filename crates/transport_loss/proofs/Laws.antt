pub mod Sections
pub mod Carry
pub mod Loss
pub mod Written
