pub mod Bytes
pub mod Rotation
pub mod Calls
pub mod Pieces
