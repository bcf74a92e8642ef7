pub mod Numbers
pub mod Lines
pub mod Pages
pub mod Asked
