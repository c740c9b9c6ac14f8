mod Examples
pub mod Laws
mod Sizes
mod Turning
