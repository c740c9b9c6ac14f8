pub mod Walk
pub mod Repair
pub mod Lengths
pub mod KeepClosest
pub mod Beam
