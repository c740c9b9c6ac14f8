pub mod Bits
pub mod Blocks
pub mod Bytes
pub mod Residual
pub mod Sums
pub mod Laws
