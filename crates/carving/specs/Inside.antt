pub mod Carving
pub mod Steps
