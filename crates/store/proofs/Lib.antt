pub mod Examples
pub mod Good
pub mod Header
pub mod Opened
pub mod Reading
pub mod Sizes
mod Flat
