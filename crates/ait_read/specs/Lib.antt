pub mod Acceptance
pub mod Places
pub mod Records
pub mod Labels
pub mod Answers
pub mod Resolved
pub mod Handed
