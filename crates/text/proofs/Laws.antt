pub mod Puts
pub mod Digits
pub mod Words
pub mod Written
pub mod Said
