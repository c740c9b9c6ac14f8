pub mod Steps
pub mod Refining
