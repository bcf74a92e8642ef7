pub mod Records
pub mod Lists
pub mod Faults
pub mod Words
pub mod Cells
pub mod Puts
