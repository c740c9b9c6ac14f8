pub mod Rows
pub mod Leaves
