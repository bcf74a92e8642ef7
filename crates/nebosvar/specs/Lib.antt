pub mod Box
pub mod Drift
pub mod Play
pub mod Packets
