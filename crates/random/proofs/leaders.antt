pub mod Draws
pub mod Positions
pub mod Examples
