pub mod Finite
pub mod Parts
pub mod Sound
pub mod Keeping
pub mod Acceptance
pub mod Examples
