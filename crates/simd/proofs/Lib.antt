pub mod Left
pub mod Lanes
pub mod Eight
