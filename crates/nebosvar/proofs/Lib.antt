pub mod Unique
pub mod Numbers
pub mod Places
pub mod Lists
pub mod Transport
