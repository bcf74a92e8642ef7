pub mod Blocks
pub mod Marks
pub mod Record
pub mod Keeping
pub mod Changes
pub mod Refusals
