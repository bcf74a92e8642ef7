pub mod Classes
pub mod Shapes
pub mod Tag00
pub mod Tag01
pub mod Tag02
pub mod Tag05
pub mod Tag15
pub mod Reading
