pub mod Kinds
pub mod Contents
pub mod Lists
pub mod Tags
pub mod Proper
pub mod Walks
pub mod Records
