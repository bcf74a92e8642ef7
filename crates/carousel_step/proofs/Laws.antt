pub mod Sames
pub mod Slots
pub mod Images
pub mod Afresh
pub mod Outcomes
pub mod Keeping
