pub mod Stream
pub mod Promise
pub mod Encoder
pub mod Writer
