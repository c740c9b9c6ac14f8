pub mod Cells
pub mod Planes
pub mod Laws
pub mod Examples
