pub mod Norm
pub mod Root
pub mod Part2
