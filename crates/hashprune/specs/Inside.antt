pub mod Hashprune
pub mod Steps
