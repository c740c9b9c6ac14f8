pub mod Distance
pub mod Order
pub mod Vectors
