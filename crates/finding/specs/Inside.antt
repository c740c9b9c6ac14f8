pub mod Docs
pub mod Finding
