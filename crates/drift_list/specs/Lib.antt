pub mod Values
pub mod Reading
pub mod Answers
pub mod Writing
