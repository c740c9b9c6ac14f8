pub mod Reading
pub mod Flat
pub mod Blocks
pub mod Parts
pub mod Places
