pub mod Packet
pub mod Feed
pub mod State
pub mod Calls
pub mod Pieces
pub mod Sound
pub mod Grouped
