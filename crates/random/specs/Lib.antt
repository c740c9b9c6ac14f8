pub mod Lcg
pub mod Hyperplanes
pub mod Leaders
