pub mod Leaves
pub mod Carving
pub mod Build
