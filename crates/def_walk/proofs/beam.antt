pub mod Reverse
pub mod Nearest
pub mod Inserting
pub mod Laws
pub mod Distances
pub mod Examples
