pub mod Stores
pub mod Written
pub mod Footprint
